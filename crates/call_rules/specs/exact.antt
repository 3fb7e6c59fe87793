pub mod CallsExact
pub mod Complete
pub mod ExitExact
pub mod InitExact
pub mod PassExact
