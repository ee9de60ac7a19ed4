pub mod Opposites
pub mod Law
pub mod Found
pub mod Made
