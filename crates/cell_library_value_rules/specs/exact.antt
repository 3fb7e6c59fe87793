pub mod CellValueComplete
pub mod CellValueSound
