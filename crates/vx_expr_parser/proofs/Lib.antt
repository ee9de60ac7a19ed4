pub mod Turns
pub mod Steps
pub mod Says
pub mod Rows
