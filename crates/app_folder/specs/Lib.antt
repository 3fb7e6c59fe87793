pub mod Due
pub mod Folder
pub mod FolderDue
pub mod Heard
pub mod Outside
pub mod Reading
