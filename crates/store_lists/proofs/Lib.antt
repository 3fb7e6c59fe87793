pub mod Above
pub mod DeviceSound
pub mod ListsSound
pub mod ListsSpelled
pub mod SinkSound
