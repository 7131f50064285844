pub mod CheckWord
pub mod Spelling
pub mod Writing
pub mod Reading
pub mod Alike
pub mod Noise
pub mod Line
