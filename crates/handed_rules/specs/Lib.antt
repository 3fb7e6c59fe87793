pub mod HandedGiven
pub mod Offers
pub mod exact
