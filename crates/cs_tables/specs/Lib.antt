pub mod Told
pub mod Lines
pub mod Made
pub mod Laws
