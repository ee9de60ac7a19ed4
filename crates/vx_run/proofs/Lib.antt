mod Programs
mod WorkedLoops
mod WorkedCalls
mod WorkedInstances
mod Asked
pub mod Supplies
pub mod Stores
pub mod Steps
pub mod Newest
pub mod Bindings
pub mod Joined
pub mod Largest
pub mod Numbered
mod CallForms
mod Parts
mod StatementForms
pub mod Forms
pub mod Started
pub mod Insides
mod ByAll
pub mod Levels
pub mod Applied
pub mod Opened
pub mod Resources
pub mod Totals
pub mod Carried
pub mod Free
pub mod Flattened
pub mod Spread
pub mod Permitted
pub mod GivenNow
pub mod Written
pub mod Bounded
pub mod Valued
pub mod Pieces
pub mod Filled
pub mod Bodied
pub mod Exits
