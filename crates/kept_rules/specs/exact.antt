pub mod KeptExact
