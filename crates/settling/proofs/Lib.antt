pub mod Growth
pub mod Least
pub mod KeptTerms
pub mod Down
pub mod Looks
pub mod Grows
