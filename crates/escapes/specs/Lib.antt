pub mod Escaped
pub mod Spelled
