pub mod Fields
pub mod Reading
pub mod Contents
pub mod Steps
pub mod Writing
pub mod Checks
pub mod Theorems
