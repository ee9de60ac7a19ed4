pub mod Elements
pub mod Agreement
pub mod Models
pub mod Laws
