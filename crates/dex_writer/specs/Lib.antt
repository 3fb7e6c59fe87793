pub mod Bytes
pub mod ClassData
pub mod CodeItem
pub mod File
pub mod Law
pub mod Placed
pub mod Rows
pub mod Tables
