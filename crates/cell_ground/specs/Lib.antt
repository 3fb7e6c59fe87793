pub mod Coming
pub mod ComingListed
pub mod Ready
pub mod Steps
