pub mod Coming
pub mod Counting
pub mod Halving
pub mod Lines
pub mod Telling
pub mod Worklist
