pub mod Ahead
pub mod Answered
pub mod Closed
pub mod Completed
pub mod Quiet
pub mod Recordings
pub mod Tallied
