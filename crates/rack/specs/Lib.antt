pub mod Bank
pub mod Face
pub mod Joined
pub mod Lane
pub mod Panel
pub mod Refusals
pub mod Text
