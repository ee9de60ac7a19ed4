pub mod Example
pub mod Firsts
pub mod Later
