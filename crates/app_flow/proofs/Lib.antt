pub mod Accepting
pub mod Defecting
pub mod Found
pub mod InOrder
pub mod Moving
pub mod OneFlow
