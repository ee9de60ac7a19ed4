pub mod Generated
pub mod Programs
pub mod Laws
