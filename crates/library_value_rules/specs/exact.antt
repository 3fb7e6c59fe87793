pub mod StaticExact
pub mod ValueComplete
pub mod ValueSound
