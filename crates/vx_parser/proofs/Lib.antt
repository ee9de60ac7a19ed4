pub mod Turns
pub mod Members
pub mod Answered
pub mod Spelled
pub mod Refused
pub mod Told
