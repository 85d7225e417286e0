pub mod Names
pub mod Row
