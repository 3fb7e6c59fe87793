pub mod Below
pub mod Kept
