pub mod Checked
pub mod Looking
pub mod Reading
pub mod Telling
