pub mod GroupLaws
pub mod Entries
