pub mod Lists
pub mod Rows
