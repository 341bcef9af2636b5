pub mod Known
pub mod Walk
pub mod Answers
pub mod Ready
