pub mod Tests
pub mod Numbers
pub mod Totals
pub mod Masks
pub mod Operators
pub mod Least
