pub mod Cocycles
pub mod Dimensions
pub mod Rings
