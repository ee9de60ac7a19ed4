pub mod Aheads
pub mod Owed
