pub mod Circle
pub mod Depths
pub mod Hierarchy
pub mod Settled
