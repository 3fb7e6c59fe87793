pub mod Numbers
pub mod Payloads
pub mod Plain
pub mod Rows
pub mod Units
pub mod Whole
