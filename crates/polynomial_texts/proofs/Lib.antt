pub mod Bytes
pub mod Unique
pub mod Names
pub mod Answers
pub mod Written
