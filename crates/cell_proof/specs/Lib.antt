pub mod Covering
pub mod Staying
