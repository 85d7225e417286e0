pub mod Trees
pub mod Cursor
