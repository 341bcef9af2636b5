pub mod Ahead
pub mod Searched
