pub mod ReadAs
pub mod Submissions
