pub mod Turns
pub mod Bits
pub mod Parts
pub mod Readiness
pub mod Unique
