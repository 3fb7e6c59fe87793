pub mod Compared
pub mod Keys
pub mod Laws
pub mod Order
pub mod OrderLaws
pub mod PathKeys
pub mod Paths
