pub mod Clients
pub mod Content
pub mod Posting
pub mod Reading
pub mod Saying
pub mod Submitting
pub mod Texts
pub mod Words
