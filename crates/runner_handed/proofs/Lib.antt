pub mod Events
mod Rows
pub mod Stays
pub mod Walked
