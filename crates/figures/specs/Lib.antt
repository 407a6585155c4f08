pub mod Plans
pub mod Load
pub mod Figures
pub mod Evaluations
