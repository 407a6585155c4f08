pub mod Screen
pub mod Determined
