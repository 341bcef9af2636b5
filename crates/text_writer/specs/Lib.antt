pub mod Answers
pub mod Sink
