pub mod CheckWord
pub mod Digits
pub mod Packet
pub mod Reader
pub mod Noise
pub mod Line
