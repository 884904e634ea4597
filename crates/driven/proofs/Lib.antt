pub mod Asks
pub mod Kept
pub mod Written
