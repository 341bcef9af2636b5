pub mod Walk
pub mod Right
pub mod Literals
