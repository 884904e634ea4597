pub mod Counts
pub mod Entries
pub mod Keeping
pub mod Parts
