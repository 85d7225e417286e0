pub mod Tagged
pub mod Whites
pub mod Unique
pub mod Promises
