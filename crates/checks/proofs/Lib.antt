pub mod Rules
pub mod Arguments
pub mod Refusals
pub mod Found
