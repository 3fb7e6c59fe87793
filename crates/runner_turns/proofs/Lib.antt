mod Called
mod Ways
