pub mod Answers
pub mod Commands
pub mod Lines
pub mod Mistakes
pub mod Steps
