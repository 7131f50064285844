pub mod Held
pub mod Room
pub mod Stretch
