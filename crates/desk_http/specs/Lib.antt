pub mod Came
pub mod Fields
pub mod Heads
pub mod Laws
pub mod Replies
pub mod Requests
