pub mod Calls
pub mod Events
pub mod Promises
pub mod Rules
pub mod Uses
