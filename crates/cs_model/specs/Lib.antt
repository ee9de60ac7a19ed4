pub mod Elements
pub mod Models
pub mod Leaving
