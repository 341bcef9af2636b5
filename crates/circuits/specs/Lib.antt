pub mod Function
pub mod Check
