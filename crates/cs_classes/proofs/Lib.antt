pub mod Rows
pub mod Values
pub mod Calls
pub mod Numbered
pub mod Models
pub mod Laws
