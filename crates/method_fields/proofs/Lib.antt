pub mod Params
pub mod PositionsSound
pub mod TypesSpelled
