pub mod CellAllExact
pub mod FirstExact
