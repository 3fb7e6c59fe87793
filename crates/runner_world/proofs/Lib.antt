pub mod Places
mod Setting
mod Starting
