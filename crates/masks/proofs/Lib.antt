pub mod Sequences
pub mod Exchanges
pub mod Checked
pub mod Drawn
