pub mod Memos
pub mod Serving
