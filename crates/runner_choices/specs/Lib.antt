pub mod Choices
pub mod Laws
pub mod Meeting
pub mod Table
