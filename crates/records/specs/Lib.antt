pub mod AnyRecords
pub mod Frames
pub mod Messages
pub mod Plans
pub mod Slots
pub mod Stores
pub mod Writing
