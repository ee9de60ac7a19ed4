pub mod Large
mod Quotients
