pub mod Changes
pub mod Claims
pub mod private
