pub mod Handwritten
pub mod Parts
pub mod Claims
pub mod private
