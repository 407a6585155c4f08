pub mod Rule05
pub mod Claims
