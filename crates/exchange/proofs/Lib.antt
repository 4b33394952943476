pub mod Judged
pub mod Rows
