pub mod Analyses
pub mod Laws
