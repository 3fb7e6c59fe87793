pub mod Layouts
pub mod Numbers
pub mod Positions
pub mod Registers
