pub mod Parts
pub mod Nested
pub mod Plain
pub mod Views
