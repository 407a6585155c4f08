pub mod File
pub mod Claims
