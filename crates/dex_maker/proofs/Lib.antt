pub mod LineLemmas
pub mod Shortness
pub mod Sums
