pub mod Layout
pub mod Carried
