pub mod Shifts
pub mod Pairs
pub mod Looked
