pub mod Laying
pub mod Labels
pub mod Rows
pub mod Size
pub mod Unique
