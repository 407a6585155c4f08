pub mod Shown
pub mod Claims
pub mod private
