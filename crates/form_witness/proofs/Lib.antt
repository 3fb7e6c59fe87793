pub mod Calling
pub mod Linking
pub mod Telling
