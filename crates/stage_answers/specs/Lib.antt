pub mod Answers
pub mod Resolving
pub mod StageFiles
pub mod Stages
pub mod Stopping
pub mod Works
