pub mod Parts
pub mod Waiting
pub mod Frames
