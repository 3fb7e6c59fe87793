pub mod CaseFacts
pub mod DiskFacts
pub mod KeeperFacts
pub mod LogFacts
