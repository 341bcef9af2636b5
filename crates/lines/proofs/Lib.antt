pub mod WellFormed
pub mod Printed
pub mod Local
pub mod Viable
pub mod Lines
