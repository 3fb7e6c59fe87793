pub mod Contents
pub mod Ended
pub mod Postings
