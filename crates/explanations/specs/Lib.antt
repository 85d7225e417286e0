pub mod Decimal
pub mod Explanation
