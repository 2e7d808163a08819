pub mod Rings
pub mod KnownTables
pub mod Values
pub mod Prefixes
pub mod Standard
pub mod Stores
pub mod Known
