pub mod Indexed
pub mod Ruled
pub mod RuledExact
