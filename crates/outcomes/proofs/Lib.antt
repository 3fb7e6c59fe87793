pub mod Called
pub mod Found
pub mod NothingLeftOut
pub mod Pairs
pub mod Sorting
pub mod Spots
