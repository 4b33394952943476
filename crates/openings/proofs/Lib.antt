pub mod Adding
pub mod Never
pub mod Positions
pub mod Reading
pub mod Rows
