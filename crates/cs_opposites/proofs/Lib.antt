pub mod Entered
pub mod Gained
pub mod Truths
