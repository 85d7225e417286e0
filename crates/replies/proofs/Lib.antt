pub mod Replies
pub mod Promises
pub mod Unique
