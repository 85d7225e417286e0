pub mod Laws
pub mod Means
pub mod Depths
pub mod Unique
