pub mod Picture
pub mod Number
