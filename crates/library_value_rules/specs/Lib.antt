pub mod StaticGiven
pub mod ValueGiven
pub mod exact
