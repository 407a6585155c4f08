pub mod Size
pub mod Unique
