mod Crowded
mod Listed
mod Reached
