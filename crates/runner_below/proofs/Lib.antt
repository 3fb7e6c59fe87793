pub mod Looked
mod Numbered
mod Staying
