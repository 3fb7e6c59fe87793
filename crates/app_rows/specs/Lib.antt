pub mod Application
pub mod CellTests
pub mod StartLaws
pub mod StartRows
pub mod Tests
