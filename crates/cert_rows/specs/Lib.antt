pub mod Fitting
pub mod Laws
pub mod Parts
pub mod Reading
pub mod Rows
pub mod Sets
pub mod Spelling
