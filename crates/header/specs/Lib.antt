pub mod Search
pub mod Pairs
pub mod Nets
