pub mod Kept
pub mod Unique
