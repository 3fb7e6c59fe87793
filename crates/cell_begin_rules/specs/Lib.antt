pub mod CellBeginGiven
pub mod exact
