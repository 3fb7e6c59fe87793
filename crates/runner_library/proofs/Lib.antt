mod Added
mod Finished
mod Given
mod Handed
mod Inserted
mod Joined
mod Labelled
mod Made
mod Placed
pub mod Tied
