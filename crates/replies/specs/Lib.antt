pub mod Lives
pub mod Replies
pub mod Talks
pub mod Turns
