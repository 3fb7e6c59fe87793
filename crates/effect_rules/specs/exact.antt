pub mod Complete
pub mod EffectsExact
pub mod Sound
