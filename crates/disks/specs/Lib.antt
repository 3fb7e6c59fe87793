pub mod Disks
pub mod Memory
