pub mod Back
pub mod Doing
pub mod Given
pub mod State
pub mod Went
