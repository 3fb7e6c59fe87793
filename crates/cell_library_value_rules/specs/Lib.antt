pub mod CellPinned
pub mod CellValueGiven
pub mod CellValues
pub mod exact
