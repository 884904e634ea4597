pub mod Back
pub mod Last
pub mod Steps
