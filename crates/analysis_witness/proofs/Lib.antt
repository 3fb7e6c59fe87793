mod Checking
mod Flowing
