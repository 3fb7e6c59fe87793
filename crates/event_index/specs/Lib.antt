pub mod Asked
pub mod Bodies
pub mod Comings
pub mod Kinds
pub mod Listed
pub mod Settled
pub mod Tables
