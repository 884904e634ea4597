pub mod Lists
pub mod Members
pub mod Resuming
