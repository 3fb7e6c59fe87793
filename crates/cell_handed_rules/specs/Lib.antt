pub mod CellHandedGiven
pub mod Offers
pub mod exact
