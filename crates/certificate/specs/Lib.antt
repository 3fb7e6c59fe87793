pub mod Cert
pub mod Digests
pub mod Laws
pub mod Reading
