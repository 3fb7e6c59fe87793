pub mod Lifted
pub mod StepGiven
pub mod StepListed
pub mod exact
