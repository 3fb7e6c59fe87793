pub mod CellTestsTell
pub mod Starting
pub mod TestsTell
