pub mod Exclusions
pub mod Partners
