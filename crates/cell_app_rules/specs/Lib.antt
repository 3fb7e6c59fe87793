pub mod CellAllGiven
pub mod CellReady
pub mod Families
pub mod FirstGiven
pub mod exact
