pub mod Law
pub mod Exposed
pub mod Examples
