pub mod TellsAll
