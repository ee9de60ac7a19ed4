pub mod Loops
pub mod Targets
pub mod Blocks
pub mod Assigns
pub mod AgreesStatements
pub mod Agree
