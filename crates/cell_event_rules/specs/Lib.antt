pub mod CellEventGiven
pub mod CellGivenBack
pub mod CellRowGiven
pub mod Receivers
pub mod exact
