pub mod Copying
pub mod Made
pub mod Missing
pub mod Readers
