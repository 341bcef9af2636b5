pub mod Capacity
pub mod Entries
pub mod List
pub mod Scans
