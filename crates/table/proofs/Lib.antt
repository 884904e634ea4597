pub mod Adjacent
pub mod Halving
pub mod Laws
pub mod Placing
pub mod Rising
pub mod Shifts
