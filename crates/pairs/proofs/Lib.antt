pub mod Laws
pub mod Unique
pub mod Meaning
pub mod Listed
