pub mod Repeats
pub mod private
