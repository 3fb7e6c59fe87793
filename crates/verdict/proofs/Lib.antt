pub mod Clear
pub mod Halting
pub mod OneReading
pub mod OneVerdict
pub mod Outcomes
pub mod Rechecks
pub mod Tables
