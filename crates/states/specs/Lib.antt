pub mod States
pub mod Joining
pub mod NineCases
