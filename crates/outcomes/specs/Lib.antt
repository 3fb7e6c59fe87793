pub mod Ascending
pub mod Causes
pub mod Findings
pub mod NothingLeftOut
pub mod Places
pub mod Spots
pub mod Within
