pub mod Operations
pub mod Module
pub mod Field
pub mod Sums
pub mod Tables
pub mod Resolutions
