pub mod Functions
pub mod Live
pub mod Quiet
