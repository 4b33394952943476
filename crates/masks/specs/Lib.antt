pub mod Mask
pub mod Held
pub mod Draw
pub mod Sources
pub mod Promises
