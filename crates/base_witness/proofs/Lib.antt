pub mod Keeping
pub mod Tabling
