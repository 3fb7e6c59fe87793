pub mod Acts
pub mod Apps
pub mod Ends
pub mod Flows
pub mod Frames
pub mod Results
pub mod Standing
pub mod Witnesses
