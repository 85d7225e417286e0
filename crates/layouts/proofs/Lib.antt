pub mod Tags
pub mod Names
pub mod Items
pub mod Spelling
