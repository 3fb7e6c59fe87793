pub mod OneReading
pub mod References
pub mod Requested
