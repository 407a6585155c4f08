pub mod Numbers
pub mod Reading
pub mod Parts
pub mod Size
pub mod Unique
