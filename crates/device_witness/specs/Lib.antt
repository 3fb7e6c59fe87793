pub mod DeviceFacts
pub mod InOrder
pub mod Packages
