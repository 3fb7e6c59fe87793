pub mod Cutting
pub mod Retelling
pub mod Stored
