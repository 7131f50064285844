pub mod Passwords
pub mod Sessions
