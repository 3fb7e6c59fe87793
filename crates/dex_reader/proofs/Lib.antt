pub mod WalkRest
pub mod ClassReadings
pub mod ClassRowReadings
pub mod ClassDefReadings
pub mod IdReadings
pub mod HeaderReadings
pub mod FileReadings
pub mod SoundReadings
