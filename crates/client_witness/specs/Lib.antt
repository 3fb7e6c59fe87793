pub mod OneCase
pub mod Replies
pub mod Requests
pub mod Tries
