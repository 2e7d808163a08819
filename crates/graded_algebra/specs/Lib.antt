pub mod Algebras
pub mod Presentations
pub mod Vectors
pub mod Claims
pub mod Cochains
