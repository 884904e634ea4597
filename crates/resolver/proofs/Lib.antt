pub mod Applied
pub mod Boards
