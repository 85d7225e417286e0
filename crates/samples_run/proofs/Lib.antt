pub mod Folds
pub mod Residues
