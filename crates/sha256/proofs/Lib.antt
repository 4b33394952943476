mod BigEndian
mod Bitwise
mod Chains
pub mod Digests
mod Made
mod Paddings
mod Rounds
mod Windows
