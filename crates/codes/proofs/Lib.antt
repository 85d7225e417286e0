pub mod Examples
pub mod Named
pub mod Rows
pub mod Unique
