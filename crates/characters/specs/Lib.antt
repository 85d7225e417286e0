pub mod Utf8
pub mod References
pub mod Says
