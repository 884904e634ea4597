pub mod Applied
pub mod Calls
pub mod Deliveries
pub mod Faults
pub mod Shown
