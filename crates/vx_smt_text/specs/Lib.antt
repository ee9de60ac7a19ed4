pub mod Text
pub mod Unique
pub mod Small
pub mod Shaped
pub mod Pending
