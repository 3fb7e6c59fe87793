pub mod Premised
pub mod Searching
