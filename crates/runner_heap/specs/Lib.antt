pub mod Objects
pub mod Shown
