pub mod Values
pub mod Named
pub mod Short
pub mod Unique
