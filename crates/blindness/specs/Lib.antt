pub mod Readable
pub mod Replaced
pub mod Sources
pub mod Blind
pub mod Renamed
