pub mod Stack
pub mod Values
