pub mod Laws
pub mod Menus
pub mod Tables
