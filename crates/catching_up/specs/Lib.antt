pub mod Catching
pub mod Entries
pub mod Standings
pub mod Telling
pub mod Texts
