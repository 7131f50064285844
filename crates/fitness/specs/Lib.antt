pub mod Fitness
pub mod Soundness
