pub mod Climbing
pub mod Starts
pub mod Sides
pub mod Chains
pub mod Waits
pub mod Unique
