pub mod Codes
pub mod Crowds
pub mod Lines
