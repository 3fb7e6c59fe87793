pub mod Adding
pub mod Between
pub mod Bounds
pub mod Parts
pub mod Stretches
