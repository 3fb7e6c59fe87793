pub mod Linking
pub mod Looking
pub mod Sound
