pub mod Lines
pub mod Members
