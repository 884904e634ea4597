pub mod Cuts
pub mod Entries
pub mod Replays
pub mod Tallies
