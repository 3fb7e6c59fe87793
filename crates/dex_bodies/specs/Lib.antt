pub mod Code
pub mod CodeStands
pub mod Handlers
pub mod Rising
pub mod Tries
