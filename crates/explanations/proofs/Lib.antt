pub mod Adding
pub mod Digits
pub mod OnLine
pub mod Printed
pub mod Promises
pub mod Unique
