pub mod Cells
pub mod Version
