pub mod Certs
pub mod Faults
pub mod Fronts
pub mod RowReaders
pub mod Steady
