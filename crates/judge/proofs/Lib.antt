pub mod Table
pub mod Unique
