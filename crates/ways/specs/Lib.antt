pub mod Search
pub mod Onward
pub mod Pairs
pub mod Inner
