pub mod Filtered
pub mod Exact
