pub mod CellCallGiven
pub mod CellExitGiven
pub mod CellPassGiven
pub mod exact
