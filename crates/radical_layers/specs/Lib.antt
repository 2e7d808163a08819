pub mod Coordinates
pub mod Moves
pub mod Layers
pub mod Placing
pub mod LayerBasis
pub mod UnitRows
