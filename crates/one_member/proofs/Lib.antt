pub mod Drains
pub mod Masks
