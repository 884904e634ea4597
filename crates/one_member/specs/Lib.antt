pub mod Carried
pub mod Drained
pub mod Making
pub mod Texts
