pub mod Forms
pub mod Keys
