pub mod FirstLinkFault
pub mod Frame
pub mod IsApp
pub mod Keys
pub mod Limits
pub mod OneAnswer
