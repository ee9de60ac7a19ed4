pub mod Units
pub mod Calls
