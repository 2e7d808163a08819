pub mod Kept
pub mod Stores
pub mod FirstTables
pub mod Shown
pub mod KnownRings
pub mod RelationsOver
pub mod Cohomology
