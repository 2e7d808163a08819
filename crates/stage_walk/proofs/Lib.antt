pub mod Headers
pub mod Turns
pub mod Growing
pub mod Whole
pub mod Loops
pub mod Taken
