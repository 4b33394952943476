pub mod Feeding
pub mod Opening
