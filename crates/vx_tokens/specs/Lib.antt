pub mod Tokens
pub mod Text
pub mod Standing
pub mod Scanning
pub mod Views
pub mod Law
