pub mod Ended
pub mod Grows
pub mod Judged
pub mod Opened
pub mod Safe
