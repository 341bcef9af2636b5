pub mod Demands
pub mod Numbers
