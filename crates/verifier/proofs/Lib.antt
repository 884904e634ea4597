pub mod Masks
pub mod Records
