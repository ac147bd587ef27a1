pub mod Pairs
pub mod Rows
pub mod Write
