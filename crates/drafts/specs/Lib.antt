pub mod Draft
pub mod Judged
pub mod Pairs
pub mod Fit
pub mod Written
