pub mod BeginGiven
pub mod Fits
pub mod exact
