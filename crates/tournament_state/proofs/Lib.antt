pub mod Tests
pub mod Places
pub mod Meaning
pub mod Ranges
pub mod Unique
