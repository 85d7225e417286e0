pub mod Calendar
pub mod After
pub mod Times
pub mod Sundays
pub mod Packed
pub mod Midnight
pub mod Periods
