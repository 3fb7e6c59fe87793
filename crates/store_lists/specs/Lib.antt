pub mod Callbacks
pub mod Classes
pub mod Device
pub mod Large
pub mod Lists
pub mod Methods
pub mod Spelled
