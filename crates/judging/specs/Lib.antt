pub mod Conditions
pub mod Effects
pub mod Judgements
pub mod Rejections
