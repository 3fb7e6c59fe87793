pub mod Bodies
pub mod Faults
pub mod Routes
pub mod Targets
pub mod Turns
