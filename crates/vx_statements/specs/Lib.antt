pub mod Roles
pub mod Statements
pub mod StatementFaults
pub mod Blocks
pub mod Laws
