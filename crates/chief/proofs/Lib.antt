pub mod Lines
pub mod Unique
