pub mod Lifted
pub mod Comparison
pub mod Classes
pub mod ClassMap
pub mod Stages
pub mod Homotopies
