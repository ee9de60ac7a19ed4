pub mod Scenes
pub mod Plain
pub mod Small
pub mod Adding
pub mod Starting
pub mod NewTerms
