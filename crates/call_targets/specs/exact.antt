pub mod EnterComplete
pub mod EnterSound
