pub mod CertAgain
pub mod CertFound
pub mod CertLaws
pub mod Growing
pub mod Known
pub mod Placing
