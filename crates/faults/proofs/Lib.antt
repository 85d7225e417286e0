pub mod Clauses
pub mod Steps
pub mod Turns
pub mod Named
pub mod First
pub mod Shared
pub mod After
