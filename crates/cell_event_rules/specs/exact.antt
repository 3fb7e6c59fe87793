pub mod CellEventsExact
pub mod Complete
pub mod Sound
