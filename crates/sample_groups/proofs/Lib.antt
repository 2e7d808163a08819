pub mod Agreement
pub mod ProductWords
pub mod SampleGroups
