pub mod Connections
pub mod Handed
pub mod Obeyed
pub mod Runs
