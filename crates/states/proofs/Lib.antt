pub mod Placed
pub mod Unique
