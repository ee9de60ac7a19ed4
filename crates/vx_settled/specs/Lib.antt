pub mod WhenSettled
pub mod Recursions
