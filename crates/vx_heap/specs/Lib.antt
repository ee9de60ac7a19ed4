pub mod Names
pub mod Places
pub mod Views
pub mod Picked
pub mod Heaps
