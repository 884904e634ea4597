pub mod Fresh
pub mod Ready
pub mod Room
pub mod Steps
pub mod Values
