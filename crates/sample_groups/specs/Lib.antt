pub mod Products
pub mod Samples
