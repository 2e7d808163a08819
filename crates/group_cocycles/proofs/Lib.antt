pub mod Classes
pub mod Degrees
pub mod Dimensions
pub mod Labels
pub mod Rings
