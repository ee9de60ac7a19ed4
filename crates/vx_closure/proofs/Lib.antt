pub mod Numbers
pub mod Additions
pub mod Turns
pub mod Leading
