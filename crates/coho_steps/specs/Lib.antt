pub mod Steps
pub mod Refusals
pub mod Groups
pub mod Lines
pub mod Loading
pub mod Stops
pub mod Told
pub mod Statuses
