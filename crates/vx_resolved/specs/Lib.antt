pub mod Resolved
pub mod Numbers
pub mod Settled
