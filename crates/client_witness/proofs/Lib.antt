pub mod Answering
pub mod Cases
pub mod Requesting
pub mod Telling
pub mod Trying
