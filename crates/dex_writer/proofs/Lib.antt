pub mod Alignment
pub mod ByteLemmas
pub mod ClassLemmas
pub mod Found
pub mod Passes
pub mod PlacedLemmas
pub mod Places
