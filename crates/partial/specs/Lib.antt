pub mod Partial
pub mod Answers
