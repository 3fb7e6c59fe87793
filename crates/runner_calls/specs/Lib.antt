pub mod Frames
pub mod Landing
