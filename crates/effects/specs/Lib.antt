pub mod Lists
pub mod Shown
