pub mod Holding
pub mod Records
pub mod Run
pub mod Table
