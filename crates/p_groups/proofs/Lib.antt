pub mod SameTables
pub mod Fields
pub mod Layers
