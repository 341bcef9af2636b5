pub mod Known
pub mod Small
