pub mod Tables
pub mod Implied
pub mod Models
