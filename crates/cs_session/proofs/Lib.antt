pub mod Lists
pub mod Apart
pub mod Spread
pub mod Told
pub mod Meant
pub mod Ones
pub mod Turned
pub mod Kept
mod Caused
pub mod Formed
pub mod Decided
