pub mod Listing
pub mod Put
pub mod Claims
