pub mod Keeping
pub mod Seats
