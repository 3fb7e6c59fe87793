pub mod Obeying
pub mod Responding
pub mod Run
pub mod Sending
pub mod Serving
