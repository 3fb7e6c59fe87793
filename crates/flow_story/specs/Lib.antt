pub mod Looking
pub mod Stories
