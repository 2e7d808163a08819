pub mod Dimensions
pub mod Asked
pub mod Faults
pub mod Saved
pub mod Pieces
pub mod Turns
pub mod Growing
