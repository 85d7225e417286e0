pub mod Act
pub mod Attributes
pub mod Constraints
pub mod Moves
pub mod Step
