pub mod Modular
pub mod Rows
pub mod Elimination
pub mod Kernels
pub mod Choices
pub mod Residues
pub mod Ranks
pub mod Maps
