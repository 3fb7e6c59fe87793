pub mod Defects
pub mod Least
