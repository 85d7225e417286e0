pub mod Taken
pub mod Unique
