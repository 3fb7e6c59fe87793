pub mod ByteFacts
pub mod OutsideFacts
pub mod TableFacts
