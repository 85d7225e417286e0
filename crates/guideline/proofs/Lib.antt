pub mod Each
pub mod Depths
pub mod Named
pub mod Roots
pub mod Unique
