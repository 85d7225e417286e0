pub mod Ran
pub mod Sheets
pub mod Spans
pub mod Unique
pub mod Used
