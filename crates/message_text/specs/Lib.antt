pub mod Offers
pub mod Texts
