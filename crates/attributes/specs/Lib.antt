pub mod Names
pub mod Attribute
pub mod Short
