pub mod Lists
pub mod Search
pub mod Rows
pub mod Ranks
pub mod Signed
pub mod Determined
