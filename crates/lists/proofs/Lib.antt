pub mod Least
pub mod Parts
pub mod Search
