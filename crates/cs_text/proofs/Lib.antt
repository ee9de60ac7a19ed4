pub mod Whole
pub mod Placed
pub mod Words
pub mod Terms
pub mod Lexed
pub mod Steps
pub mod Certificates
