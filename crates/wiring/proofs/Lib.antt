pub mod Laws
pub mod Judging
pub mod Found
pub mod Reading
