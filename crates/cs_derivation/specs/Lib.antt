pub mod Reached
pub mod Taken
pub mod View
pub mod Finish
