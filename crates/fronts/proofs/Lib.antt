pub mod Shares
pub mod Searches
pub mod Tags
pub mod Items
pub mod Begins
