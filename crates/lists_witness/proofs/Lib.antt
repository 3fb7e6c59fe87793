pub mod Reading
pub mod ReadingDevice
pub mod ReadingLarge
pub mod ReadingClient
