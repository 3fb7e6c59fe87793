pub mod Coming
pub mod Gathered
pub mod Telling
