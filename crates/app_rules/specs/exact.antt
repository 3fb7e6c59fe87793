pub mod AllExact
