-- Only for the contracts of private functions; no other crate names it.
pub mod Gather
pub mod FinePlan
