pub mod Cuts
pub mod Hex
pub mod Copies
pub mod Unique
