pub mod HandedComplete
pub mod HandedExact
pub mod HandedSound
