pub mod AllGiven
pub mod Ready
pub mod exact
