pub mod Answered
pub mod Texts
