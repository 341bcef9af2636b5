pub mod Lists
pub mod Term
pub mod Order
pub mod Prime
pub mod Completions
pub mod Duality
pub mod Joins
