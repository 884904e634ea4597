pub mod Laws
pub mod Sorting
pub mod Walking
