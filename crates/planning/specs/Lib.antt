pub mod Gaps
pub mod Laws
pub mod Left
