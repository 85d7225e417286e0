pub mod Fitting
pub mod Numbering
pub mod Unique
