pub mod Text
pub mod Law
