pub mod Bytes
pub mod Runs
pub mod Walks
pub mod Sames
pub mod Firsts
pub mod Near
pub mod Unique
