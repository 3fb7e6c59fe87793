mod Meeting
mod Searching
