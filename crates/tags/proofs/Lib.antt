pub mod Names
pub mod Ends
pub mod Many
pub mod Unique
