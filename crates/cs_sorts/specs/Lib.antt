pub mod Sorting
pub mod Laws
pub mod Examples
