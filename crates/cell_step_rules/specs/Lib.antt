pub mod CellStepGiven
pub mod CellStepListed
pub mod Lifted
pub mod exact
