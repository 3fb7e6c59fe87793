pub mod Answers
pub mod ExactlyOne
