pub mod JournalFacts
pub mod RecordFacts
