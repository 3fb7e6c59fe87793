pub mod Leb
pub mod Readings
pub mod Numbers
pub mod RunningTotals
pub mod TypeListReadings
pub mod TableReadings
