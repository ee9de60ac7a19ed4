pub mod Parts
pub mod Names
pub mod Mentioned
pub mod Tables
pub mod Found
