pub mod Reach
pub mod Listed
pub mod Within
pub mod Order
pub mod Views
pub mod Groups
pub mod Rooted
