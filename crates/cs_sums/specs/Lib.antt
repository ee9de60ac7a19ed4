pub mod Shown
pub mod Between
pub mod Fractional
pub mod Parts
pub mod Splits
pub mod Stops
