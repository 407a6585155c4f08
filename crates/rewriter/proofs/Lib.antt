pub mod Same
pub mod Unique
