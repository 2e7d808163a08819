pub mod FirstLayer
pub mod Claims
