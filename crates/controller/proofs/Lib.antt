pub mod Reaching
pub mod Reports
pub mod Shown
pub mod Storing
