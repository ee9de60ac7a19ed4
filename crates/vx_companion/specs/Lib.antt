pub mod Companion
pub mod Right
pub mod Lawful
