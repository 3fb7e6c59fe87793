pub mod Fields
pub mod Form
pub mod Once
pub mod Places
pub mod Shape
pub mod Spelling
pub mod Tree
pub mod Words
