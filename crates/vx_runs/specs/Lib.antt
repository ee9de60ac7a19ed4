pub mod Whole
pub mod Law
pub mod Examples
