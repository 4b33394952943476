pub mod OneField
pub mod Reading
pub mod Writing
pub mod RoundTrip
pub mod Handing
