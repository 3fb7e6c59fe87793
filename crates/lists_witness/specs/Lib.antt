pub mod ClientFacts
pub mod DeviceFacts
pub mod LargeFacts
pub mod ListFacts
pub mod OfficeFacts
pub mod Trees
