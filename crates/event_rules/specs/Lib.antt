pub mod Calling
pub mod EventGiven
pub mod GivenBack
pub mod RowGiven
pub mod exact
