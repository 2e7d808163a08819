pub mod RowPolynomials
pub mod Values
pub mod Ranks
pub mod Factors
pub mod Pivots
pub mod Multiples
