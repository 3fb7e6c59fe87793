mod Acting
mod Own
pub mod Tied
