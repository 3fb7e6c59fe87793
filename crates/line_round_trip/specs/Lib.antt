pub mod Decoding
pub mod Said
