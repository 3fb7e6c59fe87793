pub mod Fronts
pub mod OneReading
pub mod Replayed
pub mod TellsRight
