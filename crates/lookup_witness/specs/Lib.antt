pub mod AppFacts
pub mod IndexFacts
pub mod LinkFacts
pub mod PartFacts
pub mod Shapes
