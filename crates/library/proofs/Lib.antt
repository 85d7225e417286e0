pub mod Putting
pub mod Lengths
pub mod Unique
