pub mod Bools
pub mod Choosing
pub mod Comparison
pub mod OwnTables
pub mod Places
pub mod Sublists
pub mod Vectors
