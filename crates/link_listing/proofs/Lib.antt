pub mod InFiles
pub mod Joined
pub mod Keeps
pub mod Lookups
pub mod Passes
pub mod PutIn
pub mod SoundMembers
pub mod Triples
