pub mod Syntax
pub mod Line
pub mod Meaning
pub mod Answers
pub mod Members
