pub mod Referring
pub mod Units
pub mod Saying
pub mod Ascii
pub mod Low
pub mod Alike
pub mod Unique
