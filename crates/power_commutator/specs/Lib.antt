pub mod Presentations
pub mod Steps
pub mod Collect
pub mod Order
pub mod Claims
pub mod Examples
