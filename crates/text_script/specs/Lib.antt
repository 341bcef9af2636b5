pub mod Syntax
pub mod Script
pub mod Meaning
pub mod Faults
pub mod Lines
pub mod Answers
