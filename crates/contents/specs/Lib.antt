pub mod Said
pub mod Spelled
pub mod Legal
pub mod Shown
pub mod Totals
