pub mod Spent
pub mod New
pub mod Refuted
pub mod Reached
pub mod Tried
