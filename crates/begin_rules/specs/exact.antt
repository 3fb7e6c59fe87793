pub mod BeginExact
