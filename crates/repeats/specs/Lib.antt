pub mod Order
pub mod Bearers
pub mod Cells
