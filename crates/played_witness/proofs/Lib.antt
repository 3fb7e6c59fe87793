mod Ordering
mod Playing
