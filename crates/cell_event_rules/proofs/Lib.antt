pub mod Calling
pub mod NothingBack
