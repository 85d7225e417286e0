pub mod Items
pub mod Rows
pub mod Reading
pub mod Judging
pub mod Answer
