pub mod Counts
pub mod Generators
pub mod Lists
pub mod Polynomials
pub mod Substitution
