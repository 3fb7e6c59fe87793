pub mod Encoded
pub mod Sizes
pub mod Submitted
