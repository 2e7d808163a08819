pub mod Tables
pub mod Products
pub mod Critical
pub mod Rests
pub mod Steps
pub mod Finishing
