pub mod Call
pub mod Over
pub mod Whole
