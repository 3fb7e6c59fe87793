pub mod Best
pub mod Driven
pub mod Nothing
pub mod Places
pub mod Strange
