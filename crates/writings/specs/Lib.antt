pub mod Given
pub mod Amounts
pub mod Back
pub mod Same
pub mod Again
