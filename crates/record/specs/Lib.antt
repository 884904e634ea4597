pub mod Certificates
pub mod Faults
pub mod Format
pub mod Kinds
pub mod Numbers
