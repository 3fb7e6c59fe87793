pub mod ClassData
pub mod ClassDefs
pub mod ClassesStand
pub mod Dex
pub mod Sound
pub mod Told
pub mod Whole
