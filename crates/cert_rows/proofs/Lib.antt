pub mod PartsAgain
pub mod PartsFound
pub mod PathsFound
pub mod RowsAgain
pub mod RowsFound
