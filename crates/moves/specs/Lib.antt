pub mod Moves
pub mod Claims
pub mod Causes
pub mod Sizes
