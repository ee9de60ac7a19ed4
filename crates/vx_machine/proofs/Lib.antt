pub mod Walks
pub mod OnTop
pub mod Follow
mod Gathers
mod Quiet
