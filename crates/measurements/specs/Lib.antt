pub mod Measurement
pub mod Answers
pub mod List
pub mod Walk
