pub mod Refused
pub mod RefusedCalls
