pub mod Injection
pub mod Sums
pub mod Cover
