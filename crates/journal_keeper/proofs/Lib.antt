pub mod Adds
pub mod Calls
pub mod Counting
pub mod Safe
