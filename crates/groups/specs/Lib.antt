pub mod Apart
pub mod Due
pub mod Groups
pub mod Objections
pub mod Orders
pub mod Plans
