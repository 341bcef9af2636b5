pub mod Table
pub mod Bounds
pub mod Answers
pub mod NodeParts
pub mod Arranged
pub mod Last
