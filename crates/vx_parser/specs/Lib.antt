pub mod Faults
pub mod Answers
pub mod Halting
pub mod Parts
pub mod Refusing
pub mod Spelling
pub mod Views
