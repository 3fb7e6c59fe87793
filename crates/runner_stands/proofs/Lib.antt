mod Listed
mod Marked
mod Reasons
