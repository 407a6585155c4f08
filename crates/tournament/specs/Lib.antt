pub mod Rule
pub mod Answers
pub mod private
