pub mod Asked
pub mod Bounds
pub mod Found
pub mod Readings
pub mod Results
pub mod Searched
