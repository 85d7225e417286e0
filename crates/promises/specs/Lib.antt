pub mod Examples
pub mod Rows
pub mod Answers
pub mod Items
pub mod Sheet
pub mod Day
pub mod Fakes
