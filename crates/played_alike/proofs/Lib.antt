mod Events
pub mod Heaps
mod Librarian
mod Local
pub mod Orders
pub mod Pairs
mod Standing
mod Step
