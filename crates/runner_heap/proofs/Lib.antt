mod Added
mod Gotten
mod Places
pub mod Under
