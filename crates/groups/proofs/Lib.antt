pub mod Enabling
pub mod Keeping
pub mod Only
pub mod Rising
pub mod Slots
