pub mod Clients
pub mod Decoding
pub mod Forms
