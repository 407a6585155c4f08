pub mod First
pub mod ConstantPlaces
pub mod Gaps
pub mod Exactly
pub mod Says
pub mod Lists
pub mod Unique
