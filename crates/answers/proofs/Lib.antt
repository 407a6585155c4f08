pub mod Gather
pub mod Terms
pub mod Cheapest
pub mod Places
pub mod Outcome
pub mod Values
pub mod Unique
