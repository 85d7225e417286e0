pub mod Made
pub mod Along
pub mod Parse
pub mod Theorems
pub mod Examples
