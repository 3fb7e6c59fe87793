pub mod CellCallsExact
pub mod ExitExact
pub mod PassExact
