pub mod Evidence
pub mod Fetching
pub mod Turns
