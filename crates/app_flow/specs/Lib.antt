pub mod Defect
pub mod Flow
pub mod InOrder
