pub mod Handed
pub mod Heard
pub mod Outside
pub mod Spelled
