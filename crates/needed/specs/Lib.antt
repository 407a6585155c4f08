pub mod Needed
