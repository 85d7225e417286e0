pub mod Judged
pub mod Rules
