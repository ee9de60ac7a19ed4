pub mod Lists
pub mod Rows
pub mod Searches
pub mod Marks
pub mod Those
pub mod Turned
pub mod Orders
pub mod Roots
