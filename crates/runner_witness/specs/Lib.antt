pub mod Acts
pub mod Begins
pub mod Calls
pub mod Raises
