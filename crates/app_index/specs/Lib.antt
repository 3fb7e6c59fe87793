pub mod Handed
pub mod Numbers
pub mod ReaderLaws
pub mod Readers
pub mod Walk
