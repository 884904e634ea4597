pub mod Numerals
pub mod Pairs
pub mod Runs
