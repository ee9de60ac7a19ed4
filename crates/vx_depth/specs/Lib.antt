pub mod Entering
pub mod Depths
pub mod Worked
