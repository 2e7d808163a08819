pub mod Modules
pub mod Maps
