pub mod Next
pub mod Space
pub mod Endings
pub mod Serving
pub mod Working
