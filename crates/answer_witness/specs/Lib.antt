pub mod FlowFacts
pub mod FolderFacts
pub mod GroundFacts
pub mod JudgingFacts
pub mod Office
pub mod OutcomeFacts
pub mod RowFacts
pub mod VerdictFacts
