pub mod Arrivals
pub mod Firsts
