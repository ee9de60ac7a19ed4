pub mod Firsts
mod Takes
mod Levels
