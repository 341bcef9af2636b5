pub mod Guarded
pub mod Listing
pub mod Exact
