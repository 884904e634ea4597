pub mod Gone
pub mod Laws
pub mod Offers
