pub mod Loops
pub mod Shorter
pub mod Lists
pub mod Indexing
pub mod Among
pub mod Fronts
