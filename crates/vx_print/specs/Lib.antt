pub mod Words
pub mod Canonical
pub mod Views
pub mod Same
pub mod Laws
