pub mod Comparison
pub mod ClassMap
