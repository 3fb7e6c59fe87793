pub mod Kept
pub mod OfApp
pub mod exact
