pub mod Kept
pub mod Scratch
