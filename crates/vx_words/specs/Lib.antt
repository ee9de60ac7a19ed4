pub mod Table
pub mod Solvers
pub mod Numbers
pub mod Orders
pub mod Parses
