pub mod ComingOut
pub mod Flows
pub mod Gathered
pub mod Judging
pub mod Rows
pub mod Sought
pub mod Sound
pub mod Told
