pub mod Coming
pub mod Digits
pub mod Ends
pub mod Named
pub mod OneAnswer
pub mod Room
pub mod Answered
pub mod Writing
