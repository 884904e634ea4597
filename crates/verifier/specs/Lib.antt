pub mod Faults
pub mod Rolls
pub mod Seats
