pub mod Frames
pub mod Laws
pub mod Numbers
