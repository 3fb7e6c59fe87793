pub mod Calls
pub mod Ends
pub mod Format
pub mod Known
pub mod Last
pub mod Logs
pub mod Reading
