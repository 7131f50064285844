pub mod Days
pub mod Apart
pub mod Ends
pub mod Clocks
