pub mod Commands
pub mod Numbers
pub mod Serve
pub mod Words
