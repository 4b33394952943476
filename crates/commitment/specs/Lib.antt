pub mod Meaning
pub mod Messages
