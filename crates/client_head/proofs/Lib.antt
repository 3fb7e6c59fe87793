pub mod Bytes
pub mod EmptyLines
pub mod HeadRead
pub mod Lines
