pub mod Fitting
pub mod Growth
pub mod Limits
pub mod Listed
pub mod Steps
pub mod Whole
