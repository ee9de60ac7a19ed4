pub mod Digits
pub mod Letters
pub mod Signs
pub mod Scan
pub mod Pieces
pub mod Right
pub mod Answer
pub mod Standing
