pub mod Fitting
pub mod Into
pub mod Laws
pub mod Reading
pub mod Spelling
