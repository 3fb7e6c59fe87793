pub mod EffectGiven
pub mod exact
