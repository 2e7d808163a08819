pub mod Classes
pub mod Claims
