pub mod HeapComplete
pub mod HeapSound
pub mod LibraryComplete
pub mod LibraryExact
pub mod LibrarySound
