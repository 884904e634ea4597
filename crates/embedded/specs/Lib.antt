pub mod Answers
pub mod Asking
pub mod Beginning
pub mod Calls
pub mod Delivering
pub mod Records
pub mod Terms
pub mod Told
