pub mod Keeper
pub mod MemoryKeeper
pub mod Viewing
