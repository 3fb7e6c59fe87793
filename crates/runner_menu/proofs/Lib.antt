mod Chosen
mod Tabled
