mod Decided
mod Ready
