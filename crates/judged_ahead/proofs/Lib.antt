mod Kept
mod Removed
