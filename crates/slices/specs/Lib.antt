pub mod Bytes
pub mod Part
pub mod Run
pub mod Walk
pub mod Same
pub mod Text
