pub mod Stores
pub mod Found
mod Pairs
pub mod Done
mod Taken
