pub mod Known
pub mod Laws
pub mod Played
pub mod Told
