pub mod Cases
pub mod Desk
pub mod Docket
pub mod Earlier
pub mod Laws
pub mod Plans
pub mod Rules
pub mod Runs
