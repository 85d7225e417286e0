pub mod Rules
pub mod Totals
pub mod Given
pub mod Shifted
