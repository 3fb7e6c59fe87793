pub mod CallGiven
pub mod ExitGiven
pub mod InitGiven
pub mod Initialised
pub mod PassGiven
pub mod exact
