pub mod Costs
pub mod Listings
pub mod Named
pub mod Values
