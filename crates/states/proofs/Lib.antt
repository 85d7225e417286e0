pub mod Acts
pub mod Judgements
pub mod Unique
