pub mod Calls
pub mod Fields
pub mod Links
pub mod Replies
pub mod Requests
pub mod Turns
