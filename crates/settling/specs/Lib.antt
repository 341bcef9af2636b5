pub mod Sides
pub mod Growth
pub mod Tries
