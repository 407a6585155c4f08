pub mod Lighter
