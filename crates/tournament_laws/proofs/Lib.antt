pub mod Places
pub mod Steps
pub mod Start
pub mod Winner
pub mod Calls
