pub mod Buffers
pub mod Makers
pub mod Told
