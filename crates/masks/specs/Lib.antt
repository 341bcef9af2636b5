pub mod Numbers
pub mod Mask
