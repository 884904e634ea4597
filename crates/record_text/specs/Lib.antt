pub mod Options
pub mod Parts
