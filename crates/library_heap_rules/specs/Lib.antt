pub mod HeapGiven
pub mod LibraryGiven
pub mod exact
