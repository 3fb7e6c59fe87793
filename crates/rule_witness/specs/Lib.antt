pub mod CallFacts
pub mod EventFacts
pub mod HandedFacts
pub mod LibraryFacts
pub mod RowFacts
pub mod Smallest
pub mod StepFacts
pub mod Withheld
