pub mod Answers
pub mod Calls
pub mod Faults
pub mod Laws
pub mod Resuming
pub mod Serving
pub mod Settled
pub mod States
