pub mod Fewer
pub mod Within
