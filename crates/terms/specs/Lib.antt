pub mod Gathered
pub mod Fit
