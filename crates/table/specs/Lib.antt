pub mod Layout
pub mod Node
pub mod Gate
pub mod Outcome
pub mod Words
