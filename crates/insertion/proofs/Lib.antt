pub mod Inserted
pub mod Shifted
pub mod Parts
pub mod Again
