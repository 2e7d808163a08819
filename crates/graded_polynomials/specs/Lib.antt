pub mod Monomials
pub mod AllMonomials
pub mod Polynomials
pub mod Texts
