pub mod Counts
pub mod Same
pub mod Unique
