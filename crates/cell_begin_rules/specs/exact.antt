pub mod CellBeginExact
