pub mod CallRow
pub mod Free
pub mod Pinned
pub mod Pinning
pub mod Places
pub mod Stands
