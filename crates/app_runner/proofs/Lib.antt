mod Laws
mod Runs
mod Steps
mod Told
