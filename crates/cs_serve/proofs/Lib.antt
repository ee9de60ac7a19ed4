pub mod Nexts
pub mod Fronts
pub mod Turns
pub mod Steps
