pub mod Descriptor
pub mod Gives
pub mod Positions
pub mod SameKey
pub mod Signature
pub mod Spelled
