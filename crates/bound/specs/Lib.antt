pub mod Terms
pub mod Bound
pub mod Claims
pub mod Evaluations
