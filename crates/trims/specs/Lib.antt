pub mod Trim
pub mod Short
