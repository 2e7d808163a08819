pub mod Definitions
pub mod Claims
pub mod Checks
pub mod Chain
pub mod Computed
