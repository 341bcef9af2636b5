pub mod NodePlaces
pub mod Decoding
pub mod Encoding
pub mod ChildLists
pub mod Outcomes
pub mod Checking
