pub mod Weights
pub mod Sums
