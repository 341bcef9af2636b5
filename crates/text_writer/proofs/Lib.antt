pub mod Sinks
pub mod Printing
