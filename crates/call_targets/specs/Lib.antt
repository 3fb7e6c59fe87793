pub mod EnterGiven
pub mod Meaning
pub mod exact
