pub mod Evaluated
pub mod OneAnswer
pub mod OneValue
pub mod Replies
pub mod Ringing
