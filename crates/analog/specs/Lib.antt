pub mod Codes
pub mod Slots
