pub mod Respects
pub mod Folding
pub mod Filtering
