mod Announcing
pub mod Asking
pub mod Telling
