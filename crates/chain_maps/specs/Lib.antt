pub mod Lifts
pub mod Vectors
pub mod Multiply
pub mod Claims
