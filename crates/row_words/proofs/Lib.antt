pub mod RowWords
pub mod Unique
