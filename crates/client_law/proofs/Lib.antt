pub mod Fronts
pub mod Held
pub mod Submits
pub mod Tries
pub mod Visits
