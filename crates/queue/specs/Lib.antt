pub mod Faults
pub mod Messages
pub mod Pendings
pub mod Queues
