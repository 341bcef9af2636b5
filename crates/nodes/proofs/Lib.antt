pub mod Parts
pub mod Both
pub mod Making
pub mod Exact
