pub mod Lag
