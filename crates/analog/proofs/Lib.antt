pub mod Counts
pub mod Marks
pub mod Accuracy
pub mod Degrees
pub mod Worked
