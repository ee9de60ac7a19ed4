pub mod Gives
pub mod Parts
pub mod Says
pub mod Views
