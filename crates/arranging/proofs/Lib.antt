pub mod Stable
pub mod Written
