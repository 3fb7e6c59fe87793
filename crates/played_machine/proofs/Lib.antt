mod Called
mod Chosen
mod Counting
mod Got
mod Librarian
pub mod Ordered
mod Quiet
pub mod Reached
mod Running
mod Standing
mod Stepping
mod Taking
