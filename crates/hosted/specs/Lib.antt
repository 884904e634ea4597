pub mod Keeping
pub mod Members
