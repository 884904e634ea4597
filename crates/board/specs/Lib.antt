pub mod Asks
pub mod Boards
pub mod Faults
pub mod Laws
pub mod Left
pub mod Shown
pub mod Sorting
