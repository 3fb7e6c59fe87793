pub mod Fronts
pub mod Journal
pub mod Reading
