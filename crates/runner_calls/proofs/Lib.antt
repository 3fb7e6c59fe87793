mod Found
pub mod Raising
pub mod Stacking
pub mod Tied
