pub mod Same
pub mod Leaving
