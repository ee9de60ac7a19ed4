pub mod Keys
pub mod Under
pub mod Found
pub mod Exact
