pub mod CellHeapGiven
pub mod CellLibraryGiven
pub mod exact
