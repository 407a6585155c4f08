pub mod Rules
pub mod Letters
pub mod Evaluations
pub mod Places
