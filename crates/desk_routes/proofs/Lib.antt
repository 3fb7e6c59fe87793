pub mod Listed
pub mod Utf8
pub mod Slashes
pub mod Decoding
pub mod Due
pub mod ByPages
