pub mod Dates
pub mod Moments
pub mod Weekdays
pub mod Following
pub mod Clocks
