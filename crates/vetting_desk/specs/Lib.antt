pub mod Answer
pub mod Due
pub mod Found
pub mod Made
pub mod PartsDue
pub mod Sets
pub mod Top
