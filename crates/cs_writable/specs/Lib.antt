pub mod Writable
pub mod Tests
pub mod Pending
