pub mod Lists
pub mod Loops
pub mod Methods
pub mod Rows
pub mod Sets
pub mod Statements
mod Numbers
mod Additions
mod Told
mod Bounded
mod Ways
