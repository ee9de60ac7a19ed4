pub mod Lowest
pub mod Told
pub mod Declared
