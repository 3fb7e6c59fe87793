pub mod Code
pub mod Draws
pub mod Forms
pub mod Law
pub mod Lists
pub mod Made
pub mod Names
