pub mod Rows
pub mod Faults
pub mod Ways
pub mod Answered
pub mod Held
pub mod Lawful
