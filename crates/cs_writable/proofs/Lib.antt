pub mod Pendings
pub mod Decided
