pub mod InOrder
pub mod Rising
pub mod SoundPackages
pub mod Telling
pub mod Touching
