pub mod Slots
pub mod Inside
pub mod Walk
pub mod Sheets
pub mod Unique
