pub mod Layout
pub mod Shown
pub mod Views
