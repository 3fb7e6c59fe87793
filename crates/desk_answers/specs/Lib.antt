pub mod Answers
pub mod Bodies
pub mod Json
pub mod Texts
pub mod Tokens
pub mod Words
