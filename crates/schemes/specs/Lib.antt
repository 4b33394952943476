pub mod Hashing
pub mod Labels
