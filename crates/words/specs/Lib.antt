pub mod Classes
pub mod Hex
pub mod Lines
pub mod Numerals
pub mod Problems
