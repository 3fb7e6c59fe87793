pub mod Answering
pub mod Numbers
pub mod OneAnswer
pub mod Room
