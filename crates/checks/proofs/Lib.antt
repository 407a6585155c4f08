pub mod Counts
pub mod Fine
pub mod Words
pub mod Unique
