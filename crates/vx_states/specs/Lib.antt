pub mod Paths
pub mod SymStates
pub mod Keys
pub mod Index
pub mod Entering
pub mod Views
