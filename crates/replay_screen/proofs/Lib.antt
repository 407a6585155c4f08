pub mod Rows
pub mod Play
pub mod Silent
pub mod Winner
pub mod Size
pub mod Unique
