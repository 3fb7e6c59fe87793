pub mod RisingHandlers
pub mod Units
pub mod HandlerReadings
pub mod TryReadings
pub mod CodeReadings
