pub mod Filling
pub mod Numbers
pub mod Places
