pub mod KeeperFacts
