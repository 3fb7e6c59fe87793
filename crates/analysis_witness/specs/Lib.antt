pub mod ByFlow
pub mod OwnRules
