pub mod Note
pub mod Reader
pub mod Converter
