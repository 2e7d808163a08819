pub mod Commands
pub mod FromWords
pub mod GivenWords
pub mod ParsedPlaces
pub mod ParsedWords
pub mod Places
