pub mod Answers
pub mod Refusals
pub mod Tokens
pub mod Words
