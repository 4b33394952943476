pub mod Memory
pub mod Ways
pub mod Invariant
pub mod Lasting
