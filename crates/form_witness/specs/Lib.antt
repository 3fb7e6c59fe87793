pub mod Called
pub mod Codes
pub mod Fields
pub mod Linked
pub mod Listed
pub mod Made
