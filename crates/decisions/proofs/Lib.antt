pub mod Fits
pub mod OneSide
pub mod Whole
