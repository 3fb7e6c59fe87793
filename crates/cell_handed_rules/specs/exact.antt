pub mod CellHandedExact
pub mod RowNumbers
