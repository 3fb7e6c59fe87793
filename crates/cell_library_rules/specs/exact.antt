pub mod CellHeapComplete
pub mod CellHeapSound
pub mod CellLibraryComplete
pub mod CellLibraryExact
pub mod CellLibrarySound
