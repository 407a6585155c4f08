pub mod All
pub mod Lowest
pub mod Inside
pub mod Limits
pub mod Bands
pub mod Carried
pub mod Unique
