pub mod Alike
mod Copies
