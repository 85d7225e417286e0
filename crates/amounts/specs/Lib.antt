pub mod Texts
pub mod Shortest
