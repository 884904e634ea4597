pub mod Laws
pub mod Lives
pub mod Puts
pub mod Rounds
pub mod Runs
pub mod Tallies
pub mod Texts
