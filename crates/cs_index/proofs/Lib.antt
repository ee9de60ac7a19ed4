pub mod Indexed
pub mod Exact
pub mod Wrapped
