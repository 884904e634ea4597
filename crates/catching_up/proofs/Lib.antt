pub mod Bare
pub mod Writing
