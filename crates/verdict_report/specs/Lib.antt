pub mod Printed
pub mod Reasons
pub mod Report
