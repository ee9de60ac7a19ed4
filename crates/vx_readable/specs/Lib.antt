pub mod Numerals
pub mod Readable
pub mod Texts
pub mod Examples
