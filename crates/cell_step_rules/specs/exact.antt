pub mod CellStepsExact
pub mod Complete
pub mod Sound
