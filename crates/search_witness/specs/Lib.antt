pub mod RowsKept
pub mod Searches
