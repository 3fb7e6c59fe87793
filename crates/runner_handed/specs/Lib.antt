pub mod Laws
pub mod Menu
pub mod Reached
