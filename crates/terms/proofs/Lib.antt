pub mod Fit
pub mod Most
pub mod Unique
