pub mod States
pub mod Made
pub mod Joined
pub mod NineCases
