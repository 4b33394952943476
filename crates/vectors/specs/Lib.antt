pub mod Lists
pub mod Counts
pub mod Permutations
pub mod Residues
pub mod Layers
pub mod Words
pub mod Over
pub mod Parts
