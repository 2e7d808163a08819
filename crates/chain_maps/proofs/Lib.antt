pub mod ChainMaps
pub mod Vectors
