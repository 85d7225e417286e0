pub mod Unique
pub mod Consecutive
pub mod Sundays
pub mod Packed
pub mod Midnights
pub mod Lengths
