pub mod Below
pub mod Cases
pub mod Loans
pub mod Signs
pub mod Stores
pub mod Tests
pub mod Unique
pub mod Zeros
