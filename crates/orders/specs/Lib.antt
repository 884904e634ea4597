pub mod Asks
pub mod Names
pub mod Orders
pub mod Setups
