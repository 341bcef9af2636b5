pub mod Extended
pub mod Sizes
