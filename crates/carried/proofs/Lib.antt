pub mod Editions
pub mod Pieces
pub mod Plans
pub mod Unique
