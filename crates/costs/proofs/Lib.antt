pub mod Costs
pub mod Unique
