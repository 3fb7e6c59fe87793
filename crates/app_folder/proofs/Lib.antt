pub mod Hearing
pub mod Folders
pub mod Holding
pub mod OneFolder
