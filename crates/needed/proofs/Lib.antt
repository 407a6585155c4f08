pub mod Needed
pub mod Rule
