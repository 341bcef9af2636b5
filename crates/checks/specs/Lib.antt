pub mod Children
pub mod Arguments
