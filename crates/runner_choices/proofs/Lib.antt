pub mod Exact
pub mod Lists
pub mod Lived
mod Made
