pub mod Adding
pub mod Judging
pub mod Opening
pub mod Safety
pub mod Saying
pub mod Serving
pub mod Texts
