pub mod Repeats
pub mod Unique
