pub mod Rings
pub mod Graded
pub mod Values
pub mod Standard
pub mod Degrees
pub mod KnownTables
pub mod Nexts
