pub mod Reading
pub mod Forms
pub mod Blind
pub mod Unique
