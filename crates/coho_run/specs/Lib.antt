pub mod ClassAnswers
pub mod HonestFiles
pub mod InTurn
pub mod Outcome
pub mod RingAnswers
pub mod Run
pub mod Saving
pub mod Stopping
