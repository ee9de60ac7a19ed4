pub mod Ring
pub mod Amounts
pub mod Products
