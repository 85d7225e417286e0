pub mod Known
pub mod First
pub mod Tail
