pub mod Behind
pub mod Heaps
pub mod InRows
pub mod Listed
pub mod Picked
pub mod Places
pub mod Selves
pub mod Tests
