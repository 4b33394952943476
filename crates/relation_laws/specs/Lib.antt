pub mod Products
pub mod Statements
pub mod Weight
pub mod Short
pub mod Noise
pub mod Lawful
