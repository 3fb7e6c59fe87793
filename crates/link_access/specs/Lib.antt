pub mod Access
pub mod Flags
