pub mod Kinds
pub mod Lists
pub mod Orders
pub mod Rejections
pub mod Sent
