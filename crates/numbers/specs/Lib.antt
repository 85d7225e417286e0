pub mod Digits
pub mod Number
pub mod Amount
pub mod Parts
pub mod Alike
