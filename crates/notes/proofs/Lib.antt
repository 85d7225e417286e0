pub mod Groups
pub mod Writing
pub mod Reading
pub mod Converting
pub mod Numbers
pub mod Promises
pub mod Unique
