pub mod Before
pub mod Hashing
pub mod Keys
pub mod Orders
pub mod Renumbering
pub mod Resting
pub mod Told
pub mod WantedNumbers
