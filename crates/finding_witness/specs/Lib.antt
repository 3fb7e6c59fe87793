pub mod FindingFacts
