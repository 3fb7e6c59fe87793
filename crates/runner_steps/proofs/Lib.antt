mod Acts
pub mod Alike
mod Does
mod Few
mod Returns
pub mod Running
pub mod Went
