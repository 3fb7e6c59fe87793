pub mod Marks
pub mod Writing
