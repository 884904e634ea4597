pub mod Boards
pub mod Entries
pub mod Rows
