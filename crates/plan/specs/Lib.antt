pub mod Plan
pub mod Rules
pub mod Claims
pub mod Evaluations
