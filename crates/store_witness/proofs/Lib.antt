pub mod Cases
pub mod Counts
pub mod Gates
pub mod Moments
