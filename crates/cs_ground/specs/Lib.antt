pub mod Ground
pub mod Steps
pub mod Classed
pub mod Laws
pub mod Answers
pub mod Atoms
pub mod Replayed
pub mod Assigned
