pub mod Views
pub mod Keys
pub mod Table
pub mod Gives
