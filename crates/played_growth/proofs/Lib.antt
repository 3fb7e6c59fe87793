pub mod Growing
mod Stepping
