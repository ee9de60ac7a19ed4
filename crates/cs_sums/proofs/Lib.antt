pub mod Floors
pub mod Alone
