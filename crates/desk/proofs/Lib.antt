pub mod Shown
pub mod Again
pub mod Unique
pub mod Fits
pub mod Waits
